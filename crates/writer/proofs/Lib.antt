mod ActionLaws
mod LayoutLaws
mod AnswerLaws
