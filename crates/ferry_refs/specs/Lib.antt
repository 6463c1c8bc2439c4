pub mod Refs
pub mod Steps
pub mod Deleting
pub mod DeleteSteps
pub mod Tagging
pub mod TagSteps
