pub mod Binding
pub mod Letters
pub mod Entries
pub mod Persons
pub mod Numbers
pub mod RoomsRead
pub mod ReadBack
