pub mod PortLaws
