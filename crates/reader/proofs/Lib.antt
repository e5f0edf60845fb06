mod Amounts
mod ContentsLaws
