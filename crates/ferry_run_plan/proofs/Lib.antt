pub mod PlanLemmas
pub mod PlanCauseLemmas
