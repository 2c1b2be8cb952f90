-- What is made is ready for ELF.
use Rattle.std.proofs.Common.{◌≡◌, ℕ, ◌≤◌, sym, ◌∙◌, ap, subst}
use Rattle.std.proofs.lemmas.Result.{IfOk-weaker}
use Rattle.oc_base.specs.{declared.format.Word.{Word}, declared.format.Word.TheVariants.{W32, W64}}
use Rattle.oc_target.specs.Fitted.{IsFitted}
use Rattle.oc_neutral.specs.Objects.{Object}
use Rattle.oc_elf.specs.declared.class.ElfClass.TheVariants.{Class32, Class64}
use Rattle.oc_elf_file.specs.Canonical.{elf_file}
use Rattle.oc_made.specs.{Files.{made_bytes}, Functions.{elf_format, made_object}}
use Rattle.oc_made.proofs.ReadyElf.{made_is_fitted}
use Rattle.oc_made.proofs.file.made_file.Goals as goal

-- the object that was made for a word
is_made : (count : ℕ) (word w : Word) (object : Object) → object ≡ made_object count word → word ≡ w → object ≡ made_object count w
is_made count word w object made is = made ∙ ap (made_object count) is

-- is ready
is_ready : (count : ℕ) (w : Word) (object : Object) → count ≤ 100000 → object ≡ made_object count w → IsFitted (elf_format w) object
is_ready count w object few same = subst (IsFitted (elf_format w)) (sym same) (made_is_fitted count few w)

-- its format
its_format : (count : ℕ) (w : Word) (object : Object) → object ≡ made_object count w → object.format ≡ elf_format w
unfolding made_object
its_format count w object same = ap (λ (n : Object). n.format) same

pub new-fitted-requires : goal.new-fitted-requires
new-fitted-requires c = is_ready c.args.count W32 c.in_ok-object.object c.requires (is_made c.args.count c.args.word W32 c.in_ok-object.object c.in_ok-object.ensures c.in-W32.is)

pub new-fitted-requires-in-W64 : goal.new-fitted-requires-in-W64
new-fitted-requires-in-W64 c = is_ready c.args.count W64 c.in_ok-object.object c.requires (is_made c.args.count c.args.word W64 c.in_ok-object.object c.in_ok-object.ensures c.in-W64.is)

pub plan-requires : goal.plan-requires
plan-requires c =
    its_format c.args.count W32 c.new-fitted.result (c.new-fitted.ensures ∙ is_made c.args.count c.args.word W32 c.in_ok-object.object c.in_ok-object.ensures c.in-W32.is)

pub plan-requires-in-W64 : goal.plan-requires-in-W64
plan-requires-in-W64 c =
    its_format c.args.count W64 c.new-fitted-in-W64.result (c.new-fitted-in-W64.ensures ∙ is_made c.args.count c.args.word W64 c.in_ok-object.object c.in_ok-object.ensures c.in-W64.is)

pub returns-in_ok-plan-in-W32 : goal.returns-in_ok-plan-in-W32
returns-in_ok-plan-in-W32 c =
    IfOk-weaker c.whole.result _ _
    (λ bytes is.
    is ∙ c.in_ok-plan-in-W32.ensures
    ∙ ap (elf_file Class32) (c.new-fitted.ensures ∙ is_made c.args.count c.args.word W32 c.in_ok-object.object c.in_ok-object.ensures c.in-W32.is)
    ∙ sym (ap (made_bytes c.args.count) c.in-W32.is))
    c.whole.ensures

pub returns-in_ok-plan-in-W64 : goal.returns-in_ok-plan-in-W64
returns-in_ok-plan-in-W64 c =
    IfOk-weaker c.whole-in-W64.result _ _
    (λ bytes is.
    is ∙ c.in_ok-plan-in-W64.ensures
    ∙ ap (elf_file Class64) (c.new-fitted-in-W64.ensures ∙ is_made c.args.count c.args.word W64 c.in_ok-object.object c.in_ok-object.ensures c.in-W64.is)
    ∙ sym (ap (made_bytes c.args.count) c.in-W64.is))
    c.whole-in-W64.ensures
