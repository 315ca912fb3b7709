pub mod FormState
pub mod FormEvaluation
pub mod FormExecution
pub mod FormCalls
pub mod FormJournal
pub mod FormMeaning
pub mod Steps
pub mod Runs
