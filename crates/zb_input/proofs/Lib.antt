mod PartLaws
