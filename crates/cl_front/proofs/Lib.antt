mod Turns
mod Verdicts
