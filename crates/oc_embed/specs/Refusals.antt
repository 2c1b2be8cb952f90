-- Why a call gives no output, and what it says of that (our profile).
use Rattle.std.specs.Prelude.{◌≡◌, ◌⊎◌}
use Rattle.oc_embed.specs.{declared.refusal.Refusal.{Refusal}, Said.{Said, misworded, no_memory, no_text, refused}}
use Rattle.oc_embed.specs.declared.refusal.Refusal.TheVariants as refusal

-- what is said of a cause
abbrev pub said_of : Refusal → Said
said_of refusal.NotText = no_text
said_of (refusal.Word index code) = misworded index code
said_of (refusal.Input fault) = refused fault
said_of refusal.NoMemory = no_memory

-- that is said; or, where its text finds no memory, that memory ran out
abbrev pub IsTold : Refusal → Said → Type 0
IsTold cause said = (said ≡ said_of cause) ⊎ (said ≡ no_memory)
