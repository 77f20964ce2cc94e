-- what the contracts of the program's functions say
pub mod Program
