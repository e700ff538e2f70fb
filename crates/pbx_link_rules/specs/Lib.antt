pub mod Rules
pub mod Parts
pub mod Breaches
pub mod RuleLaws
pub mod PoolLaws
pub mod Pool
