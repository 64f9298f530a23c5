pub mod MotionText
