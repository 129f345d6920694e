pub mod outbound
