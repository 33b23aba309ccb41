pub mod OnPages
