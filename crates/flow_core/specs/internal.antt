pub use Rattle.flow_shop.specs.TwoLeast
pub use Rattle.flow_shop.specs.internal.Transposed
pub use Rattle.flow_shop.specs.internal.Same
pub use Rattle.flow_text.specs.internal.TextWalk
pub use Rattle.flow_text.specs.internal.StartSteps
pub use Rattle.flow_text.specs.internal.Codes
