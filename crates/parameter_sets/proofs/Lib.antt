mod ListLemmas
mod ReadLemmas
mod LeastLemmas
mod LawLemmas
mod FirstLemmas
mod AnswerLemmas
mod PartLemmas
