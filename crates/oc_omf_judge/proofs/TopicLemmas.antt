-- What an entry says, by what it is about.
use Rattle.std.proofs.Common.{◌≡◌, ℕ, Bool, true, false, cond, List, Ok, Err, refl, ap}
use Rattle.std.specs.Prelude.{◌||◌}
use Rattle.oc_omf.specs.declared.constants.TheConstants.{MODEND, EXTDEF, PUBDEF, LNAMES, SEGDEF, GRPDEF, FIXUPP, LEDATA, LIDATA, COMDEF, LEXTDEF, LPUBDEF}
use Rattle.oc_omf.specs.{declared.structures.PublicBase.{PublicBase}, declared.topics.Topic.{Topic}, Cursor.{Reading}, Structures.{base_read}}
use Rattle.oc_omf.specs.{Entries.{Entry, is_kind, is_wide, publics_of, said_by, says_nothing, whole}, Topics.{publics_on, said_on, topic_of}}
use Rattle.oc_omf.specs.declared.topics.Topic.TheVariants as topic

-- a choice of topics, and of what they say
chosen : (place : ℕ) (wide : Bool) (b : List ℕ) (test : Bool) (x y : Topic) (e f : Entry) → e ≡ said_on x place wide b → f ≡ said_on y place wide b
    → cond test e f ≡ said_on (cond test x y) place wide b
chosen place wide b true x y e f h i = h
chosen place wide b false x y e f h i = i

same_publics : (place kind : ℕ) (b : List ℕ) (r : Reading PublicBase) → publics_of kind place b r ≡ publics_on (is_kind LPUBDEF kind) place (is_wide kind) b r
same_publics place kind b (Ok r) = refl
same_publics place kind b (Err c) = refl

-- an entry says what its topic does
pub said_topic : (place kind : ℕ) (b : List ℕ) → said_by place kind b ≡ said_on (topic_of kind) place (is_wide kind) b
unfolding said_by
said_topic place kind b =
    let w = is_wide kind in
    chosen place w b (is_kind LNAMES kind) topic.Names _ _ _ refl
    (chosen place w b (is_kind SEGDEF kind) topic.Segment _ _ _ refl
    (chosen place w b (is_kind GRPDEF kind) topic.Group _ _ _ refl
    (chosen place w b (is_kind PUBDEF kind || is_kind LPUBDEF kind) (topic.Publics (is_kind LPUBDEF kind)) _ _ _
    (ap (λ ps. record (says_nothing place) { bases = whole place (base_read b 0); publics = ps }) (same_publics place kind b (base_read b 0)))
    (chosen place w b (is_kind EXTDEF kind || is_kind LEXTDEF kind) (topic.Externals (is_kind LEXTDEF kind)) _ _ _ refl
    (chosen place w b (is_kind COMDEF kind) topic.Communals _ _ _ refl
    (chosen place w b (is_kind LEDATA kind || is_kind LIDATA kind) (topic.Data (is_kind LIDATA kind)) _ _ _ refl
    (chosen place w b (is_kind FIXUPP kind) topic.Fixups (topic.Others (is_kind MODEND kind)) _ _ refl refl)))))))

-- an entry has the place where it stands
pub said_place : (t : Topic) (place : ℕ) (wide : Bool) (b : List ℕ) → (said_on t place wide b).place ≡ place
said_place topic.Names place wide b = refl
said_place topic.Segment place wide b = refl
said_place topic.Group place wide b = refl
said_place (topic.Publics local) place wide b = refl
said_place (topic.Externals local) place wide b = refl
said_place topic.Communals place wide b = refl
said_place (topic.Data iterated) place wide b = refl
said_place topic.Fixups place wide b = refl
said_place (topic.Others ends) place wide b = refl
