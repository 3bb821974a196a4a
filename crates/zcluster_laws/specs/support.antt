-- What serves the worked examples, and is part of no promise.
pub mod ClusterRows
