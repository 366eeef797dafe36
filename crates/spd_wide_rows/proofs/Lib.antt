mod NumberLaws
mod StageLaws
mod StartLaws
mod WeightLaws
