-- What the rows of the tables preserve of a view and of what they put.
pub mod Everywhere
pub mod Lasts
pub mod OtherPosts
pub mod RowViews
