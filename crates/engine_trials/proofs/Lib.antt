mod Going
mod Questions
