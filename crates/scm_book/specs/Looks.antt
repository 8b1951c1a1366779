-- What is made of what a look after a start was told.
use Rattle.std.specs.Prelude.{◌≡◌, Option, None, Some}
use Rattle.scm_model.specs.declared.calls.Reply.{Reply}
use Rattle.scm_model.specs.declared.steps.Answer.{Answer}
use Rattle.scm_model.specs.declared.steps.Answer.TheVariants as answers
use Rattle.scm_book.specs.declared.answers.EndLook.{EndLook}
use Rattle.scm_book.specs.declared.answers.EndLook.TheVariants as looks

abbrev pub EndTold : Option Answer → EndLook → Type 0
EndTold (Some told) end = (reply : Reply) × (told ≡ answers.Reply reply) × (end ≡ looks.Done reply)
EndTold None end = end ≡ looks.Again
