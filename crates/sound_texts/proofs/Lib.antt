mod Expressions
mod Forms
mod Trees
mod Names
mod Drafts
