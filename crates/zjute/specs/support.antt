pub mod Kazoo
pub mod Sent
pub mod Numbers
pub mod Rarer
