mod Stays
mod Standing
