pub mod CallerLemmas
mod RowLemmas
mod NumbersLemmas
mod AtOnceLemmas
mod HeadLemmas
mod ReplyLemmas
mod CharLemmas
mod TextLemmas
mod WordLemmas
mod CallLemmas
pub mod BatchLemmas
mod BatchLaws
mod BatchHeads
pub mod PutLemmas
