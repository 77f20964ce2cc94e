-- what contracts say about requests
pub mod Requests
