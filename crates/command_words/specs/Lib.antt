pub mod Numbers
pub mod Options
pub mod Commands
pub mod Machine
pub mod Laws
