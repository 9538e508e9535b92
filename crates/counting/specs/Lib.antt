-- What count, polynomial and steady promise.
pub mod Operations
