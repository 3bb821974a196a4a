-- Lemmas on Ids: what they name while nodes come and go.
pub mod Naming
pub mod UnderWay
pub mod Removing
