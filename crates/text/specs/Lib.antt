pub mod Digits
pub mod Undo
pub mod Drafts
pub mod Examples
