mod CondLaws
mod FirstLaws
mod Passing
mod ShownLaws
