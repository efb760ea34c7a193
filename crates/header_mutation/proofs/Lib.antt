mod ItemLists
mod NameTests
mod Overwriting
