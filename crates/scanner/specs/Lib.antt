pub mod Words
pub mod Tokens
pub mod Runs
pub mod Steps
pub mod Looks
pub mod Clues
pub mod Cursors
pub mod Spelling
