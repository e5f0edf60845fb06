mod StateTests
mod MissingLaws
mod CarriedLaws
