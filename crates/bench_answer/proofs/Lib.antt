mod Fitting
mod Telling
