pub use Rattle.flow_limits.specs.Limits
pub use Rattle.flow_shop.specs.Shop
pub use Rattle.flow_shop.specs.Refusals
pub use Rattle.flow_shop.specs.InstanceFaults
pub mod Generator
