-- A migration that ends, and one that has ended.
pub mod Dead
pub mod Released
pub mod Queues
pub mod Sides
pub mod Failing
pub mod WorkedJob
