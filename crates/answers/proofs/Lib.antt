mod PartOfFace
