-- The steps and the labels of two lists are those of one and then those of the other.
use mathlib.Core.Path.{◌≡◌, refl, sym}
use mathlib.Core.List.{List, [], ◌∷◌, ◌++◌, append_assoc}
use Rattle.notation.specs.Sets.{Step, Path, test_of}
use Rattle.notation.specs.Form.{steps_of, labels_of, label_of}

pub steps-append : (ps qs : List Path) → steps_of (ps ++ qs) ≡ steps_of ps ++ steps_of qs
unfolding steps_of
steps-append [] qs = refl
steps-append (p ∷ ps) qs = rw (steps-append ps qs) (sym (append_assoc p (steps_of ps) (steps_of qs)))

pub labels_append : (ss us : List Step) → labels_of (ss ++ us) ≡ labels_of ss ++ labels_of us
unfolding labels_of
labels_append [] us = refl
labels_append (s ∷ ss) us = rw (labels_append ss us) (sym (append_assoc (label_of (test_of s)) (labels_of ss) (labels_of us)))
