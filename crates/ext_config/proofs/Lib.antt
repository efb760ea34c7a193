mod Faults
mod Least
mod Tables
mod Texts
mod Validity
