mod Behind
mod Below
mod Lists
mod Searched
