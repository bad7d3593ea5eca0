-- At most one thing is held, and only a held thing is joined, met or forgotten.
use Rattle.std.specs.Prelude.{Some, None, Option}
use Rattle.recipe.specs.declared.turns.Turn.{Turn}
use Rattle.recipe.specs.declared.turns.Turn.TheVariants.{Free, Held}
use Rattle.recipe.specs.declared.words.Word.{Word}
use Rattle.recipe.specs.declared.words.Word.TheVariants.{Step, Hold, Join, Meet, Forget}

-- the turn after a word, or none where the word is out of turn
abbrev pub turned : Turn → Word → Option Turn
turned Free (Step f) = Some Free
turned Free Hold = Some Held
turned Free Join = None
turned Free Meet = None
turned Free Forget = None
turned Held (Step f) = Some Held
turned Held Hold = None
turned Held Join = Some Free
turned Held Meet = Some Free
turned Held Forget = Some Free
