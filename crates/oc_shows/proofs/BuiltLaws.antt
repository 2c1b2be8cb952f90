-- An object that was built of a file shows it.
use Rattle.std.proofs.Common.{◌≡◌, ℕ, ◌⊎◌, List, [], ◌∷◌, map, refl, sym, ◌∙◌, ap}
use Rattle.oc_linking.specs.declared.terms.Keep.{Keep}
use Rattle.oc_linking.specs.Parts as parts
use Rattle.oc_neutral.specs.{declared.group.Group.{Group}, declared.section.Section.{Section}, declared.symbol.Symbol.{Symbol}, Objects.{Object}}
use Rattle.oc_neutral.specs.{Building.{Draft}, Dialects.{Dialect}, Faces.{shown_section, shown_symbol, frame_of}}
use Rattle.oc_shows.specs.{Shows.{Shows}, Built.{RelocMap, IsFree, IsGiven, IsStarted, BuiltShows}}
use Rattle.oc_shows.proofs.{BuiltContents.{contents-shown}, BuiltSeen.{looks-shown, patches-shown, patches-apart, patches-fit}, Holding.{holds_all}}
use Rattle.oc_shows.proofs.Showing.{IsBase, IsShowing}

frames_of : (groups : List Group) (zs : List Section) → map frame_of (map (shown_section groups) zs) ≡ map (λ (z : Section). frame_of (shown_section groups z)) zs
frames_of groups [] = refl
frames_of groups (z ∷ zs) = ap (λ (ws : List parts.Section). frame_of (shown_section groups z) ∷ ws) (frames_of groups zs)

-- an object with what is given shows the file, where what is given are the file's fields
pub showing_shows : (f : Dialect) (b : List ℕ) (keep : Keep) (base n : Object) (given : RelocMap) → IsBase f b keep base → IsShowing base n given
    → ((s at : ℕ) → IsFree f b keep given s at ⊎ IsGiven f b keep base given s at) → Shows f b keep n
showing_shows f b keep base n given start is all = record {
  format = is.format ∙ start.format;
  sections =
      ap (λ (groups : List Group). map frame_of (map (shown_section groups) n.sections)) is.groups
      ∙ frames_of base.groups n.sections
      ∙ is.frames
      ∙ sym (frames_of base.groups base.sections)
      ∙ ap (λ (ys : List parts.Section). map frame_of ys) start.sections;
  symbols = ap (λ (ys : List Symbol). map (shown_symbol ys) ys) is.symbols ∙ start.symbols;
  numbered = start.numbered;
  looks = looks-shown f b keep base n given start is all;
  at = λ p v fixed. record {
    apart = patches-apart f b keep base n given start is all p v fixed;
    fit = patches-fit f b keep base n given start is all p v fixed;
    contents = contents-shown f b keep base n given start is all p v fixed;
    patches = patches-shown f b keep base n given start is all p v fixed;
  };
}

pub base_of_start : (f : Dialect) (b : List ℕ) (keep : Keep) (base : Draft) → IsStarted f b keep base → IsBase f b keep base.object
base_of_start f b keep base start = record {
  whole = start.draft.built.bytes;
  format = start.format;
  word = start.word;
  sections = start.sections;
  symbols = start.symbols;
  numbered = start.numbered;
}

pub built_shows : BuiltShows
built_shows f b keep base d given start has all =
    showing_shows f b keep base.object d.object given (base_of_start f b keep base start) (holds_all base d given start.draft start.relocs start.folded has).showing all
