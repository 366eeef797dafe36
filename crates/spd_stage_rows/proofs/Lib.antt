mod BuiltLaws
mod StageLaws
mod ValueLaws
