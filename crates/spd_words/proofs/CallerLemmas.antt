-- What callers' proofs cite of the grammar: words are one command, or one fault, and not both; and two files of a command have two names.
pub mod Grammar
pub mod Names
