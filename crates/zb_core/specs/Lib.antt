pub mod Carrying
pub mod CorePlans
pub mod PlanLaws
pub use Rattle.zb_event.specs.Events
pub use Rattle.zb_event.specs.declared.event.Event
pub use Rattle.zb_plan.specs.Answers
pub use Rattle.zb_plan.specs.Storing
