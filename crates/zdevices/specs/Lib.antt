pub mod Device
pub mod DeviceViews
pub mod support
