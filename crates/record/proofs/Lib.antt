pub mod Numbers
pub mod Bodies
