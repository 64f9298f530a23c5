pub mod Telegrams
