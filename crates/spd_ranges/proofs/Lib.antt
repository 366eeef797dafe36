mod BoundLaws
mod OrderLaws
mod GroupLaws
mod LeafLaws
mod SweepLaws
mod MergeLaws
mod TurnLaws
mod Rows
