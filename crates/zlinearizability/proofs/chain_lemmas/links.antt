-- Links after messages are put or taken, and what stays justified on them.
pub mod LaterWorlds
pub mod Links
