pub mod Transfer
pub mod Rerun
pub mod Putting
pub mod TransferCauses
pub mod Transferring
