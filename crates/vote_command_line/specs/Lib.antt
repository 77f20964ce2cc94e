-- what the contracts of public calls say
pub mod CommandLine
pub mod ParsedArgs
pub mod Words
-- what private functions say about their parts
pub mod Subcommands
