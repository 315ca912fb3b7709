pub mod Answers
pub mod Asked
pub mod CheckAnswers
pub mod Growth
pub mod Lines
pub mod One
pub mod RunAnswers
