pub mod HistoryLemmas
pub mod UnderwayLemmas
