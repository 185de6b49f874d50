pub mod Tasks
pub mod SheetTasks
